pub mod Fields
pub mod WalkedRecord
