pub mod Vertices
pub mod Offered
pub mod Following
pub mod Texts
pub mod Graphs
