pub mod Searching
pub mod Order
pub mod Unlisted
pub mod Found
pub mod Prepared
pub mod Examples
