pub mod Ends
pub mod Loads
pub mod Tables
