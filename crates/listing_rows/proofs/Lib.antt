pub mod ElementLaws
pub mod RowLaws
pub mod GatherLaws
