pub mod Sides
pub mod FactorExample
pub mod ReturnExample
pub mod WorkedExample
pub mod PumpExample
pub mod UncrossedExample
pub mod EdgeExample
pub mod MakerExample
