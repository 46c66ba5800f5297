pub mod Forms
pub mod Nesting
pub mod Plain
pub mod Stops
