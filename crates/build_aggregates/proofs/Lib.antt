pub mod AggregateLaws
