pub mod Offsets
pub mod Words
pub mod Applied
pub mod Single
