pub mod Followed
pub mod Steps
pub mod Windows
