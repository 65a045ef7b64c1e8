pub mod Restart
pub mod Inner
