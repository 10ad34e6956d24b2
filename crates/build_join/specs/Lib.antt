pub mod VariableRow
pub mod JoinedRows
