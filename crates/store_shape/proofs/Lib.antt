pub mod EntryLaws
mod MakerEntry
pub mod Entries
pub mod SentinelLaws
