pub mod Silent
pub mod Tells
