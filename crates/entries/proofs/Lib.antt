pub mod Once
pub mod Counted
pub mod Zero
pub mod Counting
pub mod Examples
pub mod KeptDiagonals
pub mod EntryNumbers
pub mod HitsCounted
