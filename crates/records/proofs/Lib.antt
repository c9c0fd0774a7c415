pub mod Starts
pub mod Turns
pub mod Joined
