pub mod FoundPat
pub mod LawsPat
pub mod Lone
pub mod LongerPat
pub mod ReachPat
pub mod ReachSimple
