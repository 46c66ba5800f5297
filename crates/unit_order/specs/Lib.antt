pub mod Order
pub mod Positions
pub mod Needs
pub mod Turns
pub mod Errors
