pub mod BinaryRowLaws
pub mod BadIntervalLaws
