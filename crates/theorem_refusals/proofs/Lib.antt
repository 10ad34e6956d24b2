pub mod Among
pub mod NetworkNumbers
pub mod StepNumbers
pub mod CallNumbers
pub mod Retired
pub mod EdgePlaces
