pub mod Steps
pub mod Starting
pub mod Exprs
pub mod Modules
pub mod Runs
