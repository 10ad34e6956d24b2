mod PositionLaws
mod VariableRowLaws
pub mod JoinedLaws
pub mod GatherLaws
