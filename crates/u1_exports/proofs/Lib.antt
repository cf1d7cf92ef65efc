pub mod Places
pub mod Entries
pub mod Small
pub mod LentWeights
