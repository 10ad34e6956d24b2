pub mod AggregateIntervals
