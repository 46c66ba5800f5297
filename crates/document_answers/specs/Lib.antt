pub mod Refused
pub mod Value
pub mod Renaming
pub mod Over
pub mod Replies
pub mod Known
pub mod Asked
