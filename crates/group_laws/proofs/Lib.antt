pub mod Firsts
pub mod Apartness
