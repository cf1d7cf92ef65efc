pub mod Doubling
pub mod Placing
pub mod Telling
pub mod LoopsTold
pub mod Flips
pub mod Examples
