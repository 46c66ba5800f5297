pub mod Comments
pub mod Applied
pub mod Late
pub mod Indexed
pub mod Standard
pub mod Differences
