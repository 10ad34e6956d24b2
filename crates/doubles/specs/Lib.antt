pub mod Integers
pub mod Units
pub mod Rounding
pub mod Bounds
pub mod Sums
pub mod Errors
pub mod Thousandths
pub mod Costs
