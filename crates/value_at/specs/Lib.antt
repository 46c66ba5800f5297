pub mod Cursor
pub mod Value
pub mod Places
pub mod Laws
