pub mod Draw
pub mod Writer
pub mod Drill
pub mod Laws
