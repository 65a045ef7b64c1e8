pub mod App
pub mod Options
pub mod Members
pub mod Words
