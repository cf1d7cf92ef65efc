pub mod Blocks
pub mod Sums
pub mod Telling
pub mod Examples
