pub mod Positions
pub mod Statements
pub mod Stepping
pub mod Ways
pub mod Laws
