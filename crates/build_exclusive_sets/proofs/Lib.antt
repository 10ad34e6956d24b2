pub mod SameSet
pub mod SetNumber
pub mod AddSets
pub mod Accepted
pub mod CollectSets
pub mod ListMembers
pub mod MembershipLaws
