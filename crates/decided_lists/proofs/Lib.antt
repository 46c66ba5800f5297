pub mod Known
pub mod Splits
pub mod Entries
pub mod Lists
pub mod Steps
pub mod Plans
