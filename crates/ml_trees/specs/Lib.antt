pub mod Tok
pub mod Tree
pub mod Events
pub mod Words
pub mod Runs
pub mod WellFormed
pub mod View
