pub mod Passed
pub mod Answers
