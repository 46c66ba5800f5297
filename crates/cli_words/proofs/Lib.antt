pub mod Agree
pub mod Answered
pub mod Cuts
pub mod Forms
pub mod Places
pub mod Shapes
pub mod Told
