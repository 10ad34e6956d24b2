mod Columns
mod Fixed
