pub mod Memberships
pub mod ConstantRows
