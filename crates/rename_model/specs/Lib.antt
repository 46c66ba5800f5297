pub mod Ladder
pub mod Target
pub mod Project
pub mod Bytes
pub mod Foot
pub mod Renaming
pub mod Report
pub mod Laws
