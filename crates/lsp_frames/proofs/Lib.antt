pub mod Digits
pub mod Lengths
pub mod Single
pub mod Round
pub mod Writes
