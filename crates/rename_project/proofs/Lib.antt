pub mod Refusals
pub mod Cuts
pub mod Aimed
