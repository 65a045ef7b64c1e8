pub mod Keeping
pub mod Honest
pub mod Expiring
