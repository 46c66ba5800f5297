pub mod Targets
pub mod Answered
