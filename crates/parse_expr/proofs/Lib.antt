pub mod Comma
pub mod Ends
pub mod Lets
pub mod Operands
