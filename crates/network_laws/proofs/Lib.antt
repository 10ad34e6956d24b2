pub mod Readers
pub mod Passed
pub mod RecordReaders
pub mod Index
pub mod Accepted
