pub mod Warning
pub mod Warnings
