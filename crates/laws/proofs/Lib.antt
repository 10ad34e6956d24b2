pub mod LinkedLaws
pub mod Pigeonhole
pub mod Runs
pub mod Sets
pub mod Tails
pub mod Tests
