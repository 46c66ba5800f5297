pub mod Height
