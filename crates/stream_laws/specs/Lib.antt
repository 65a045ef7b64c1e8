pub mod Waiting
pub mod Streams
pub mod Windows
pub mod Names
pub mod Held
