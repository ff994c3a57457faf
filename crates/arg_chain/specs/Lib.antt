pub mod Walk
pub mod Least
pub mod Choice
pub mod Chains
pub mod Calls
pub mod Serving
pub mod Laws
