pub mod LpBuilder
