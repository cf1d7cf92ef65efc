pub mod Entering
pub mod PartWay
pub mod Plaquettes
pub mod DenseWritten
pub mod OneTerm
