pub mod AggregatedNode
