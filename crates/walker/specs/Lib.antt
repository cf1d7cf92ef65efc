pub mod Walker
pub mod Steps
pub mod Blocks
pub mod Tables
