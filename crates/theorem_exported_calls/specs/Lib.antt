pub mod ExportedRun
pub mod Retired
pub mod EdgePlaces
