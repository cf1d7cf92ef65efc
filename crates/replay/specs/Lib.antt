pub mod Cases
pub mod Comparing
pub mod Text
