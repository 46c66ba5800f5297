pub mod Said
pub mod Status
pub mod Table
pub mod Writing
pub mod Done
pub mod Laws
