mod Words
mod Readings
mod Runs
pub mod Results
mod Backwards
mod Changed
pub mod OneReading
mod Rewritten
mod Printed
