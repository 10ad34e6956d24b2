pub mod MarkLoops
pub mod NodeLoops
pub mod Links
pub mod MarkLaws
pub mod Constants
pub mod Checks
