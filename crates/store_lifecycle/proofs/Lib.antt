pub mod NoneMade
pub mod Starting
pub mod Closed
pub mod Ending
pub mod HandedBack
