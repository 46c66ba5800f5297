pub mod Pairs
pub mod Runs
pub mod Hunks
pub mod Patched
pub mod Laws
