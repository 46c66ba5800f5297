pub mod Sentence
pub mod Failure
pub mod Folder
pub mod Renaming
