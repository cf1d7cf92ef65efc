pub mod Shared
pub mod Paths
pub mod Judging
pub mod Parity
pub mod Passes
pub mod Examples
