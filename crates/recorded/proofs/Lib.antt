pub mod Numbers
pub mod Reading
pub mod Holding
pub mod Agreeing
pub mod Examples
