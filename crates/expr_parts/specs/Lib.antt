pub mod Edges
pub mod Reads
pub mod Rows
