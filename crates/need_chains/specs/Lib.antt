pub mod Needs
pub mod Chains
pub mod Distances
pub mod Marks
pub mod Rows
