pub mod ModReading
pub mod OneReading
