pub mod Words
pub mod Kept
pub mod Together
pub mod Back
pub mod Later
