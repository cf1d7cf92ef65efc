pub mod Sheet
pub mod RoundTrips
