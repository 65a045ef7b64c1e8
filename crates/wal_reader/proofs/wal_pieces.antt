pub mod Heads
pub mod Starts
pub mod Unlinked
pub mod Onwards
pub mod Piecing
pub mod Known
pub mod Places
