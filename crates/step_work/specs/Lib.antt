pub mod WorkRun
pub mod Written
