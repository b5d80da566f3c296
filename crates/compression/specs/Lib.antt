pub mod Fips
pub mod Window
pub mod Lanes
