pub mod FileSites
pub mod Searches
pub mod Units
