pub mod Entries
pub mod Row
pub mod RowLists
