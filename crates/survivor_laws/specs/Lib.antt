pub mod Survivors
pub mod Laws
