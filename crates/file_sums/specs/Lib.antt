pub mod Sums
pub mod LaneSums
