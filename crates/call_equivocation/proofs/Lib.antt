pub mod Call
pub mod Each
