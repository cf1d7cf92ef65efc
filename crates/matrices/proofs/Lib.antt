pub mod Literals
pub mod Couplings
pub mod Weighing
pub mod Vectors
pub mod Squares
pub mod Matrices
pub mod Steps
pub mod Examples
