mod BothRows
mod Memberships
