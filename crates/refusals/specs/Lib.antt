pub mod Number
pub mod Branch
pub mod Blames
