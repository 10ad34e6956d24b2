pub mod AnswerNumbers
pub mod ExportedRun
pub mod Retired
pub mod EdgePlaces
