pub mod Coupling
pub mod Weights
pub mod Terms
pub mod Matrix
pub mod Squares
