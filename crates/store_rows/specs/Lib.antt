pub mod Falls
pub mod Starts
