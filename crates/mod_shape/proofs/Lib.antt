pub mod Joins
pub mod Resolving
