pub mod RowBuilder
pub mod EdgeList
pub mod Gathered
