pub mod MarkLaws
pub mod GoodLaws
pub mod AcceptedLaws
pub mod BoundsLaws
pub mod WalkedLaws
