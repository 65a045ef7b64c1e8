pub mod Fails
pub mod Memory
pub mod MemorySite
pub mod MemoryStreams
pub mod Stopped
