pub mod Csr
pub mod Fill
pub mod Words
pub mod Views
