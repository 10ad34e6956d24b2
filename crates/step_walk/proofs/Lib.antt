pub mod WalkLaws
pub mod FileLaws
