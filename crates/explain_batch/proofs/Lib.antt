pub mod Batching
pub mod Stepping
