pub mod Below
pub mod Table
pub mod Paths
pub mod Worklist
pub mod Fixed
pub mod Laws
pub mod Only
