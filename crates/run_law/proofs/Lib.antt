pub mod Bounding
pub mod Going
pub mod Runs
pub mod Steps
pub mod Threads
