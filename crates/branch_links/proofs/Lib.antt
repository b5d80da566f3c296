pub mod Attaching
pub mod Downward
pub mod Ordered
