mod Noting
mod Pieces
pub mod Rising
pub mod Steps
