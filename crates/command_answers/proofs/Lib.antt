pub mod Batches
pub mod Listed
pub mod Free
pub mod Faults
pub mod Few
pub mod Verdicts
