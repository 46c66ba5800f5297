pub mod Slots
pub mod FileNames
pub mod Overwritten
pub mod Writing
