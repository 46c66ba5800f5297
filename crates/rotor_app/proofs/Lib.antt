pub mod Concluded
pub mod Endings
