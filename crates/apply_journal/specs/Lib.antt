pub mod Cause
pub mod Laws
pub mod Plan
pub mod Reading
pub mod Recovered
