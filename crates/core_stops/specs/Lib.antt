pub mod Machine
pub mod Survivors
pub mod Laws
