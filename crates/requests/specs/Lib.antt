pub mod Asked
pub mod Client
pub mod Json
pub mod Message
pub mod Method
pub mod Notice
pub mod Spot
