pub mod Steps
pub mod TableRules
pub mod CheckValue
pub mod Slices
pub mod SealLaws
