mod Passing
mod Lets
mod Clauses
mod Modules
mod Types
mod Items
mod Longest
mod Appended
pub mod Single
pub mod Fronts
