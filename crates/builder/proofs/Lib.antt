pub mod Finish
mod Starts
pub mod Written
