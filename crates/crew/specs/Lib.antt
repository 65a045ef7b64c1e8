pub mod Backups
pub mod Run
pub mod Crewing
pub mod Running
