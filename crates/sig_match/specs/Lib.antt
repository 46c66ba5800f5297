pub mod Walk
pub mod Parts
pub mod Matched
pub mod Tests
