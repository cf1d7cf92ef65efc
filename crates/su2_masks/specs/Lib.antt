pub mod Basis
pub mod Place
pub mod Flips
