pub mod Fronts
pub mod Marks
pub mod People
pub mod Stops
pub mod Laws
