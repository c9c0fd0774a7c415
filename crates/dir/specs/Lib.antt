pub mod Target
pub mod Answers
pub mod Calls
pub mod Book
pub mod Along
