pub mod Areas
pub mod Hashed
pub mod Steps
