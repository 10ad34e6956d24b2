pub mod ExclusivityRow
