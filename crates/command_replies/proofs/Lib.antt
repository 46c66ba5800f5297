pub mod NoMemory
pub mod Saying
pub mod Batching
pub mod Verifying
pub mod Beside
pub mod Undoing
pub mod OneReply
pub mod Accepting
