pub mod Cut
pub mod Decimal
pub mod Fitted
pub mod Lines
pub mod Reading
pub mod Running
pub mod RunningCut
