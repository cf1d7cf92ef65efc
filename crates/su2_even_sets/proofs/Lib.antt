pub mod Spans
pub mod Degrees
pub mod Forests
pub mod ClosingCount
pub mod EvenLists
pub mod Tables
