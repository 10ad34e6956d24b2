pub mod Ceilings
mod EdgeTable
mod LaidOut
mod Counts
mod Askers
mod VaryingMade
pub mod Finish
