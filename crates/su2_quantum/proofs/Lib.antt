pub mod DenseEntries
pub mod DenseTelling
pub mod OneTerm
