pub mod Directory
pub mod Refusals
pub mod Inside
pub mod Sizes
pub mod Laws
pub mod Chain
pub mod Collisions
