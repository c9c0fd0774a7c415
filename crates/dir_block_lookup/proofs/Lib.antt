pub mod Finds
pub mod CallAnswers
