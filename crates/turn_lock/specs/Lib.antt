pub mod Kinds
pub mod Known
pub mod Lists
pub mod Standing
pub mod Steps
pub mod Turn
