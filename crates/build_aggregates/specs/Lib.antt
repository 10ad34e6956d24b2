pub mod AggregateRows
