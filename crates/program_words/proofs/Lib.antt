pub mod WordLaws
pub mod ReadBack
