pub mod Known
pub mod Restarts
pub mod Lent
