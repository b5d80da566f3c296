pub mod Number
pub mod Passed
pub mod Answer
