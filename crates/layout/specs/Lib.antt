pub mod Layout
pub mod WorkRoom
