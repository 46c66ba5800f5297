pub mod Arrows
pub mod Parts
pub mod Reads
