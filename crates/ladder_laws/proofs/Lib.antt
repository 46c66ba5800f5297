pub mod Least
pub mod Repeats
pub mod Differing
pub mod Marks
pub mod Ladder
pub mod BinderLadder
