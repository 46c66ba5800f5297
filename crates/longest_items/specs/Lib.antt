pub mod Longest
pub mod Fronts
