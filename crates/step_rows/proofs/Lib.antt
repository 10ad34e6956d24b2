pub mod Fitting
pub mod Entered
pub mod Stepped
