pub mod Binders
pub mod Placed
