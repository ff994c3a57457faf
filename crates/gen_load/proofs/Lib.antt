pub mod Raising
pub mod Joining
pub mod Counting
