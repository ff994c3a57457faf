pub mod Callers
pub mod Choosing
pub mod Edges
pub mod Going
pub mod Keeping
pub mod MainStart
pub mod Marks
pub mod OneMove
