pub mod Foot
pub mod Neighbors
pub mod Laws
