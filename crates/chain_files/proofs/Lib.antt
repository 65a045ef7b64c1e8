pub mod Told
pub mod Pages
mod Overs
mod Members
mod Shown
mod Slots
mod Blocks
mod Files
pub mod Placed
