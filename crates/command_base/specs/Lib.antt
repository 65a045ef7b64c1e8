pub mod Areas
pub mod Outside
pub mod Faults
pub mod Backups
pub mod Decided
