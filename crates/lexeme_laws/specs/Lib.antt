pub mod Table
pub mod Begins
pub mod Trivia
pub mod Laws
