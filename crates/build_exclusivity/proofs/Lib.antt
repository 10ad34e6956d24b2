pub mod KnownSets
pub mod Gathering
pub mod ExclusivityRows
