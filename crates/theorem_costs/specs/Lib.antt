pub mod FlowPlaces
pub mod CostOrder
pub mod CostFileOrder
