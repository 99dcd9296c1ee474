pub mod Beginnings
pub mod CodeNumbers
mod InputNames
pub mod RowSorts
