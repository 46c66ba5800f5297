pub mod Front
pub mod Forms
pub mod Unread
pub mod Heads
pub mod Blanks
pub mod Circle
pub mod Placed
pub mod Laws
