pub mod Padding
pub mod FromFn
pub mod Hash
pub mod Examples
