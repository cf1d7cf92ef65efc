pub mod Judging
pub mod Summing
pub mod Validity
pub mod Examples
pub mod Calls
