pub mod Binders
pub mod Hits
pub mod Leasts
pub mod Blurs
pub mod Findings
pub mod Sources
pub mod Faults
