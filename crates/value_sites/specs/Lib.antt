pub mod Each
pub mod Places
pub mod Respelled
pub mod Sound
pub mod SpelledSites
