pub mod Ranges
pub mod Edited
pub mod Renamed
pub mod Laws
