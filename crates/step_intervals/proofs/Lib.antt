pub mod IntervalLaws
pub mod FoundLaws
