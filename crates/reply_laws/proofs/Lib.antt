pub mod Commands
pub mod Listed
pub mod Replies
