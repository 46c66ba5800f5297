pub mod Words
pub mod FirstByte
pub mod Views
pub mod Variants
