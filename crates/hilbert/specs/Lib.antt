pub mod Basis
pub mod Search
pub mod Index
