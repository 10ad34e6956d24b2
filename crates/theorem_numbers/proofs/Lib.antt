pub mod SumBounds
pub mod ReadBounds
pub mod ElementBounds
pub mod BuildNumbers
pub mod StepNumbers
pub mod ProgrammeLaws
