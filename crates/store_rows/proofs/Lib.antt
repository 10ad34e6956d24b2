pub mod Starts
pub mod Sums
pub mod Rising
