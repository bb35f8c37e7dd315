pub mod Written
pub mod Answers
