pub mod JudgeLaws
pub mod NodesNamed
