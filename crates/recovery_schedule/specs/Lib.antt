pub mod Played
pub mod StepReading
pub mod Steps
pub mod Texts
