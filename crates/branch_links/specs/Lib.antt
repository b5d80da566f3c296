pub mod Answers
pub mod Ordered
