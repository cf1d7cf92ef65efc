pub mod Beginnings
pub mod FieldSums
pub mod Examples
