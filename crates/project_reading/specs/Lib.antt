pub mod Source
pub mod Sources
pub mod Units
pub mod Gathered
pub mod Known
pub mod Reads
pub mod Respelled
pub mod Laws
