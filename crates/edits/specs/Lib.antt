pub mod Replaced
pub mod Undo
pub mod Lexemes
