pub mod Grown
pub mod Stored
pub mod Held
pub mod Kept
