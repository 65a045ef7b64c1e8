pub mod Header
pub mod Image
pub mod Frags
pub mod Laws
