pub mod Ending
pub mod Noting
pub mod Running
