pub mod Changed
pub mod Renamed
pub mod Back
