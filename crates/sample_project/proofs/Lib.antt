pub mod Adding
pub mod Back
pub mod Taken
