pub mod Sources
pub mod Sample
