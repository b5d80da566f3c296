pub mod Judge
pub mod Frames
pub mod Answer
pub mod Last
