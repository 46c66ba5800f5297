pub mod Forms
pub mod Nested
pub mod Sources
pub mod Files
pub mod Answers
pub mod Respelled
pub mod Ladders
pub mod Renamings
