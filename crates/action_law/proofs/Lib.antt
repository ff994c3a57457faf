pub mod Calls
pub mod Edges
pub mod Formed
pub mod Frames
pub mod Globals
pub mod Inverting
pub mod Others
pub mod Owners
