pub mod Respelled
pub mod Tables
