pub mod ListingLaws
pub mod Example
