pub mod Agreement
pub mod Cases
