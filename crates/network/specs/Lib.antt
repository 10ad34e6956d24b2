pub mod Answer
pub mod Loaded
