pub mod Chain
pub mod Increment
pub mod Laws
