pub mod Lexemes
pub mod Sources
pub mod Names
pub mod NameLists
pub mod Opened
pub mod Named
