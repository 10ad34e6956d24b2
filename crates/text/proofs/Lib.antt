pub mod Placed
pub mod Digits
