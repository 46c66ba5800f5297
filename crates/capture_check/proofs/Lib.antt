pub mod Before
pub mod Least
pub mod Twice
pub mod Groups
pub mod PlaceTests
pub mod Binders
pub mod Faults
pub mod One
pub mod Told
mod Looking
mod Locals
pub mod Equal
