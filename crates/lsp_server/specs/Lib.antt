pub mod Texts
pub mod Does
pub mod Follows
pub mod Serves
