pub mod Columns
pub mod Comparisons
