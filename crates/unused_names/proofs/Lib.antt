pub mod Fresh
pub mod Refs
pub mod Links
pub mod Trees
pub mod Faults
