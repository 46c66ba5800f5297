pub mod Ends
pub mod FormSteps
pub mod MarkSteps
