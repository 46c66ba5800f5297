pub mod BadLines
pub mod Kept
pub mod LineCuts
pub mod Loads
pub mod Places
pub mod Rising
pub mod SpaceCuts
pub mod Twins
