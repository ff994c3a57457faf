pub mod Owning
pub mod Passes
pub mod Places
pub mod Prefixes
pub mod Sound
pub mod Steps
pub mod Views
