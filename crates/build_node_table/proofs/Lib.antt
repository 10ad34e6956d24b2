pub mod Requests
pub mod Table
