pub mod Restart
pub mod Laws
