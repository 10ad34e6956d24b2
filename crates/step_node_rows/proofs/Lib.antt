pub mod Fits
pub mod VaryingLaws
pub mod NodeRowLaws
