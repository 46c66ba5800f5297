pub mod Walks
pub mod Texts
pub mod Rising
pub mod Characters
pub mod Counted
