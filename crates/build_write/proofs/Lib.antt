pub mod Filled
mod RowByRow
mod ShapeLaws
