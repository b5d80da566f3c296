-- What the program prints.
pub mod Shown
