pub mod Reading
pub mod Batch
pub mod Text
pub mod Laws
