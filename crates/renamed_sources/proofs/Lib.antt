pub mod Respelling
pub mod Limits
pub mod Unhit
pub mod ValueNames
