pub mod Restorable
pub mod Laws
