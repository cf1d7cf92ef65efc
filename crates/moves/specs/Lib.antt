pub mod Numbers
pub mod Moves
pub mod Tables
pub mod Views
