pub mod ColumnClasses
pub mod FileOrder
pub mod ProgrammeOrder
