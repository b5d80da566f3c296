mod ChMaj
pub mod Schedule
pub mod Rows
pub mod Blocks
