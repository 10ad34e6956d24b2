pub mod IncidentEdges
