pub mod Held
pub mod Kept
pub mod Known
pub mod Room
pub mod Seeing
pub mod Seen
