pub mod Adding
pub mod Keeps
pub mod Numbers
pub mod Whole
