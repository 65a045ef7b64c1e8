pub mod Crews
pub mod Showing
pub mod Good
pub mod Taking
pub mod Accepting
