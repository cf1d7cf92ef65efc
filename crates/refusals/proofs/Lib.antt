pub mod Table
pub mod Telling
