pub mod Marks
pub mod Neighbours
pub mod Turn
pub mod Passes
