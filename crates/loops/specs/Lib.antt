pub mod Walks
pub mod Parents
pub mod Loops
pub mod Climbing
