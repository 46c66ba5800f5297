pub mod Refusals
pub mod Making
pub mod Judging
pub mod Renaming
pub mod One
