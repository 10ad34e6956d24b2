pub mod MappedLaws
pub mod Turn
pub mod EdgeColumns
