pub mod Fields
pub mod Decoding
