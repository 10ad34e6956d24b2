pub mod NodeColumns
pub mod SetColumns
