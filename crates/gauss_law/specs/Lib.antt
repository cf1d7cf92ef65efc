pub mod Gauss
pub mod Listing
pub mod Spanning
pub mod Shifts
