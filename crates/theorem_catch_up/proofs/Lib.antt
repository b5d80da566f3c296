pub mod CatchUp
pub mod Fetches
pub mod Split
pub mod Reached
