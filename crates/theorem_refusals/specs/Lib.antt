pub mod RefusalNumbers
pub mod Retired
pub mod EdgePlaces
