pub mod Recorded
pub mod Marked
pub mod Opened
