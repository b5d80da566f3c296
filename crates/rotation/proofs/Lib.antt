pub mod Seen
pub mod Pass
pub mod Fill
