pub mod Bounds
pub mod Reached
