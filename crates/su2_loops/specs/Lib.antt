pub mod Loop
pub mod Parity
pub mod Passes
