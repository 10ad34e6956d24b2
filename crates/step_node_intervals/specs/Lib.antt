pub mod NodeIntervals
pub mod BinaryRows
