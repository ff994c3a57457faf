pub mod Ascending
pub mod Comparing
pub mod Corners
pub mod Dividing
pub mod Fitting
pub mod Resting
pub mod Within
