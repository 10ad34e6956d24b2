pub mod ShapeTables
