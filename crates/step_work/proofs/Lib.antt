pub mod WorkRunLaws
pub mod RefusedLaws
pub mod WrittenLaws
