pub mod ItemTurns
pub mod Rows
pub mod Whole
