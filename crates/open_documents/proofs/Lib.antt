pub mod Folders
pub mod Gathered
pub mod Laying
pub mod Outcomes
