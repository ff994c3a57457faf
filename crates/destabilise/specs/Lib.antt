pub mod Closed
pub mod Linked
pub mod Marked
pub mod Matched
pub mod Seeds
