pub mod Floats
pub mod Safety
