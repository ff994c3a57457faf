pub mod Arriving
pub mod Frames
pub mod Keeping
pub mod Steps
pub mod Threads
pub mod Values
