mod Steps
pub mod Few
