pub mod Stands
pub mod Goes
pub mod Parting
pub mod Flushes
pub mod Ends
mod Rests
pub mod Tells
pub mod Begun
pub mod Good
pub mod Follows
