pub mod Grammar
pub mod Laws
pub mod Target
pub mod Words
pub mod Written
