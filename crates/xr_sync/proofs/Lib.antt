pub mod Tops
pub mod Rows
pub mod Quiet
pub mod Reach
pub mod ColumnTables
