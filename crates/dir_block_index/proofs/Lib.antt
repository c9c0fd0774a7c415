pub mod LiveSlotsPacked
