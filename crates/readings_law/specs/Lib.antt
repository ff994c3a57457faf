pub mod Expressions
pub mod Faults
pub mod Rows
pub mod Statements
pub mod Units
