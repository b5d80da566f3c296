pub mod Run
pub mod Marks
pub mod Premises
pub mod Cases
pub mod GoodRun
pub mod Claim
