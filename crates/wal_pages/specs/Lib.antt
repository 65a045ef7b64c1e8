pub mod Places
pub mod Heads
pub mod Spread
pub mod Laws
pub mod wal_heads
