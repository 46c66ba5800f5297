pub mod Kind
pub mod Words
pub mod Shown
pub mod Spot
pub mod Excerpt
pub mod Printed
pub mod Json
pub mod Laws
