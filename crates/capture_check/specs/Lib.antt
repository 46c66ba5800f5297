pub mod Fault
pub mod Firsts
pub mod Named
pub mod Local
pub mod Would
