pub mod Sharers
