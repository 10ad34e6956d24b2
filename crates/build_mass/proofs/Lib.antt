pub mod MassRows
