pub mod Stopped
pub mod Open
pub mod Deltas
pub mod Laws
pub mod Moments
pub mod Restarts
