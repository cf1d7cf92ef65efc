pub mod Entering
pub mod Found
pub mod Filling
pub mod Walked
pub mod Built
pub mod WalkMade
pub mod FirstWords
