pub mod Edges
pub mod Kinds
pub mod Rows
pub mod Runs
pub mod TablesOf
