pub mod BoundWithin
pub mod KindLaws
