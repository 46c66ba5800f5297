pub mod Late
pub mod Refused
pub mod Suggested
pub mod Verdicts
