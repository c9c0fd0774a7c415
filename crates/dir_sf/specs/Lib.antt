pub mod Entry
pub mod Fork
pub mod Change
pub mod Inode
pub mod Walk
pub mod Inner
pub mod Laws
pub mod Left
