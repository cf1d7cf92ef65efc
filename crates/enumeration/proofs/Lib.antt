pub mod Bases
pub mod Limits
pub mod Enumerating
pub mod Demanded
