pub mod FileTypes
pub mod EveryList
pub mod Books
pub mod Replies
