pub mod Marks
pub mod Refusal
