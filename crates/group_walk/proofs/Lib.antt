pub mod Found
pub mod Grouped
pub mod Listed
pub mod Stacks
