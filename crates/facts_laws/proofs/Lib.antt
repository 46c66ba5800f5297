pub mod Declared
pub mod Few
pub mod Unrepeated
pub mod Feet
pub mod Members
pub mod Reached
pub mod Sorted
pub mod Found
