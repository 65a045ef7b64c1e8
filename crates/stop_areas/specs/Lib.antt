pub mod Left
pub mod Keeps
pub mod Laws
