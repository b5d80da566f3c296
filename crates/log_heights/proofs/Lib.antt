pub mod Search
pub mod Walked
pub mod Fetched
