pub mod Hearing
pub mod Laws
pub mod Notes
pub mod Session
pub mod State
pub mod Task
