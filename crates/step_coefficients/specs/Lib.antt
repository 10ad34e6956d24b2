pub mod RowCoefficients
