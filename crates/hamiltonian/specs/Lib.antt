pub mod Dense
pub mod Walk
