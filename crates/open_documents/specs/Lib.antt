pub mod Document
pub mod Documents
pub mod OpenTree
pub mod Workspace
