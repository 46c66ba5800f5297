pub mod Numbers
pub mod Reading
pub mod RespelledFile
pub mod RespelledNames
pub mod SiteWords
pub mod SoundFiles
pub mod Standing
pub mod Steps
