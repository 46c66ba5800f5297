pub mod Spans
pub mod Edits
