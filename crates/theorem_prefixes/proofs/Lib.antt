pub mod SameBytes
pub mod NetworkPrefix
pub mod StepPrefix
pub mod Left
pub mod LongestRecords
pub mod LongestNetwork
pub mod LongestStep
