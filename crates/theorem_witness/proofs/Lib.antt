pub mod Frames
pub mod Answers
pub mod Worlds
pub mod Witness
pub mod Sheet
