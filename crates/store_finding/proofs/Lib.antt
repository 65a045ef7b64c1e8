pub mod Replayed
pub mod Begun
pub mod Unbegun
pub mod Refilled
pub mod Moments
