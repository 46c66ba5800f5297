pub mod Lexemes
pub mod Sources
pub mod Allowed
pub mod Exactly
pub mod Twice
pub mod GoOn
pub mod Orders
