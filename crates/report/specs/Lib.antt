pub mod Batch
pub mod Json
pub mod Lines
pub mod Notice
pub mod Pieces
pub mod Recover
pub mod Text
pub mod Verify
