pub mod LocalViews
pub mod Loops
