pub mod Growth
pub mod Hoisting
pub mod Lists
pub mod Marks
pub mod Stages
pub mod Starts
pub mod Taken
