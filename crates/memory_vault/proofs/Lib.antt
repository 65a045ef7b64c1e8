pub mod MemoryFiles
pub mod Honest
pub mod Picked
