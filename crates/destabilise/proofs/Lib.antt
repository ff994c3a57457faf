pub mod Linking
pub mod Marking
pub mod Naming
pub mod Removing
pub mod Searching
