pub mod Ready
pub mod Tears
pub mod Rest
pub mod WritesOn
pub mod Waiting
pub mod NextRead
