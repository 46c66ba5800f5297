pub mod SmallParts
pub mod Leaves
pub mod HaveIn
