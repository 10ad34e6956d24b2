pub mod Decoded
pub mod CheckStep
