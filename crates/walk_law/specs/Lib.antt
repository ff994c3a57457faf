pub mod Laws
pub mod Walked
