pub mod KeptSites
pub mod Placed
pub mod Sited
pub mod SitesByForm
pub mod SpelledEvents
pub mod SpelledSites
pub mod Spelling
