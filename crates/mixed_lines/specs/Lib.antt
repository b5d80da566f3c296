-- What the words of a line take of the input.
pub mod Taken
