pub mod Scene
pub mod Places
pub mod Changes
