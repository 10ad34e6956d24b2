pub mod Insert
pub mod Rise
pub mod Row
pub mod Search
pub mod Added
pub mod Walk
