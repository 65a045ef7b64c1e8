pub mod Sinks
pub mod Drills
pub mod OneRun
