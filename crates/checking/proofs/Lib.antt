pub mod Lines
pub mod Values
pub mod Known
mod Examples
