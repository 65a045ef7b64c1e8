pub mod Steps
pub mod Runnable
