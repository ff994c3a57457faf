pub mod Examples
mod Readings
mod Valued
