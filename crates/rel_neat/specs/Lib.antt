pub mod Neat
pub mod Segments
