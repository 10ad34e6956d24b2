pub mod AdjustLaws
pub mod Applied
pub mod SameRuns
