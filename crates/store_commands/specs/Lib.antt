pub mod Init
pub mod Replay
pub mod Follow
pub mod Walsummary
pub mod Laws
pub mod Inner
pub mod Following
