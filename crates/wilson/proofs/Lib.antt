pub mod Walks
pub mod Places
pub mod Reached
pub mod Judging
pub mod Examples
