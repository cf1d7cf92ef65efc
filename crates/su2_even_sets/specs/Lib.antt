pub mod EvenSets
pub mod Loops
pub mod Forest
