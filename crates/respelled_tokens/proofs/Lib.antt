pub mod Kept
pub mod FormsKept
pub mod TokensKept
