pub mod Alone
pub mod Expressions
pub mod Faults
pub mod Shapes
pub mod Statements
pub mod Units
