pub mod Adding
pub mod Rows
pub mod Paths
pub mod PathTables
pub mod CycleTables
