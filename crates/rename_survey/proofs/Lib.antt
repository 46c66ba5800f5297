pub mod Listing
pub mod Bad
pub mod Surveyed
