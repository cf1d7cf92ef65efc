pub mod Layout
pub mod Inputs
pub mod Choosing
