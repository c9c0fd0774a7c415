pub mod Name
pub mod Starred
