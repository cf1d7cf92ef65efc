pub mod Pentachora
pub mod Faces
