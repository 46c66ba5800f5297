pub mod Resolved
pub mod Survey
pub mod Laws
pub mod Listed
