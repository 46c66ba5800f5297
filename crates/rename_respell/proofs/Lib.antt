pub mod Labels
pub mod Written
pub mod Changing
pub mod Given
pub mod Listed
