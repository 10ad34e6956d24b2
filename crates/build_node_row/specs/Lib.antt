pub mod NodeAdded
pub mod EdgeColumns
pub mod Tables
