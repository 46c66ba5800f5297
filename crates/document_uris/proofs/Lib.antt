pub mod Escapes
pub mod Outcomes
pub mod Reread
pub mod Splitting
pub mod Words
