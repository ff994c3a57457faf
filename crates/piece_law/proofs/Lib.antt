pub mod Ahead
pub mod Forms
pub mod Making
pub mod Plain
