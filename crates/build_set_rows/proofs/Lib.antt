pub mod Coefficients
pub mod BoundedRows
