pub mod Entering
pub mod Folds
pub mod Electric
pub mod Neighbours
pub mod Rooms
pub mod Running
pub mod Examples
