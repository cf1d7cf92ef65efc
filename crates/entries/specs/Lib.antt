pub mod Once
pub mod Rows
pub mod Count
pub mod Entries
