pub mod Complex
pub mod Search
pub mod Judge
pub mod Tree
pub mod Numbering
pub mod Sides
