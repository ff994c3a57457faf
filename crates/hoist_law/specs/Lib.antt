pub mod Along
pub mod Hoisting
pub mod Laws
