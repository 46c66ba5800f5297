pub mod FoundMod
pub mod LawsMod
pub mod LongerMod
pub mod ReachMod
