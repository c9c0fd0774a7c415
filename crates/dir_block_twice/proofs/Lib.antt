pub mod SlotList
pub mod TwinWalk
pub mod SeenKeys
pub mod TwinKeys
pub mod NameOrder
pub mod SortedSlots
