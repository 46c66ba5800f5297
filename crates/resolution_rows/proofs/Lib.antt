pub mod Watching
pub mod Named
