pub mod Matvec
pub mod Walk
pub mod Runs
pub mod Tables
