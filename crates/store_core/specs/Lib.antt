pub mod Refusals
pub mod State
pub mod Parts
pub mod Increments
pub mod Steps
pub mod Facts
pub mod Laws
pub mod InMemory
