pub mod Cutting
pub mod Declaring
pub mod Refusing
pub mod Told
pub mod Valued
