pub mod RowLaws
pub mod RowsHeldLaws
pub mod AddLaws
pub mod AddingRows
pub mod LentRow
pub mod Kept
