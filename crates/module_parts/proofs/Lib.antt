pub mod BeforeArrows
pub mod FoundRows
pub mod Rows
