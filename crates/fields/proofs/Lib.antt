pub mod Left
pub mod Nan
pub mod Small
pub mod NanLaws
pub mod Within
pub mod RecordLaws
