pub mod ExprReading
pub mod Longest
