mod Answering
pub mod Asked
mod Loads
mod Refusing
pub mod Solving
mod Written
