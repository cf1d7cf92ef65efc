pub mod Room
pub mod States
pub mod Places
pub mod Matrix
pub mod Products
pub mod Cases
