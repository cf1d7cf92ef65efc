pub mod SidesFound
pub mod AllSides
