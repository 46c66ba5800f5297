pub mod Bytes
pub mod Verified
