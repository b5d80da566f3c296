pub mod Same
pub mod Blank
