pub mod Lp
