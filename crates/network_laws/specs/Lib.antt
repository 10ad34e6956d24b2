pub mod NetworkAt
pub mod Passed
pub mod Sections
