pub mod Cases
pub mod Smallest
