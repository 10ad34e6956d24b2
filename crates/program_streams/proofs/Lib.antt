pub mod GrowsLaws
