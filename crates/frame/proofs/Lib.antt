pub mod Last
pub mod Walk
