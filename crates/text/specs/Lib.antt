-- What the functions of text put into a line, how they read, and how a program ends.
pub mod Fitted
pub mod Reading
pub mod Row
pub mod Running
pub mod Status
