pub mod Laws
pub mod Places
pub mod Uris
pub mod Written
