pub mod Words
pub mod Members
pub mod Files
pub mod Texts
pub mod Listed
