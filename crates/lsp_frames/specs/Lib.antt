pub mod Lines
pub mod Header
pub mod Frames
pub mod Filling
pub mod Laws
