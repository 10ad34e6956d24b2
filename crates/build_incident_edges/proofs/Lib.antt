pub mod Listed
pub mod PassedEdges
pub mod Turn
