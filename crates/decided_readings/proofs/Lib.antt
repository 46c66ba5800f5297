pub mod Cutting
pub mod Trees
pub mod Depth
pub mod Sources
pub mod Cycles
pub mod Orders
pub mod Files
