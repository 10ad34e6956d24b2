pub mod ReaderLaws
pub mod DecodedLaws
pub mod LoopLaws
