pub mod Headers
pub mod Sheets
pub mod RoundTrips
pub mod Reading
pub mod Cut
