pub mod Examples
pub mod Finished
pub mod Judging
