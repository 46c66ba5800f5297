pub mod Cuts
pub mod Sides
pub mod Given
pub mod Single
pub mod Texts
