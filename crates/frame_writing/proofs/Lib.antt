pub mod Writes
pub mod Make
