pub mod Part
pub mod Linked
