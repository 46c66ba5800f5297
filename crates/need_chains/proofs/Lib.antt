pub mod Positions
pub mod Nearest
pub mod Leading
pub mod Rowing
