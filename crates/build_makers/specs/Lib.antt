pub mod MakerKind
pub mod MadeRows
