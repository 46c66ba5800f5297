pub mod Cause
pub mod Entries
pub mod Listed
pub mod Load
pub mod Naming
pub mod Rewritten
