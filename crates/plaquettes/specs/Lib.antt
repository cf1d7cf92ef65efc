pub mod Triangle
pub mod Joined
pub mod Demand
pub mod Targets
pub mod Rows
pub mod Pairs
