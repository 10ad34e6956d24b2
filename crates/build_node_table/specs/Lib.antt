pub mod NodeTable
