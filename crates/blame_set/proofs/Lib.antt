pub mod Each
pub mod Bits
pub mod Judge
pub mod Answer
