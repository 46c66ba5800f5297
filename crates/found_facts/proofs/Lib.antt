pub mod Arriving
pub mod Ordered
