pub mod ConstraintBounds
