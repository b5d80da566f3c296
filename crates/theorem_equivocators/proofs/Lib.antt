pub mod High
pub mod Marks
pub mod Aside
pub mod Reached
