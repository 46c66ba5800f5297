pub mod Heads
pub mod Counts
