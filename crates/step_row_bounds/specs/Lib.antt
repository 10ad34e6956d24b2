pub mod SameRuns
pub mod RowBounds
