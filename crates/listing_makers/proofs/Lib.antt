pub mod MakerLineLaws
pub mod Example
