pub mod Entries
pub mod Given
pub mod Small
