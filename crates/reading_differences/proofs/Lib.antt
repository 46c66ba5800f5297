pub mod Quotes
pub mod Cuts
