pub mod Basis
pub mod Enumeration
