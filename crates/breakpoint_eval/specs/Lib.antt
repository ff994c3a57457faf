pub mod Columns
pub mod Comparisons
pub mod Laws
pub mod Lines
pub mod Names
pub mod Parting
pub mod Placing
pub mod Watching
