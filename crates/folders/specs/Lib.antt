pub mod MemFolders
