pub mod Field
pub mod Records
