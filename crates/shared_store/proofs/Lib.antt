pub mod Sums
pub mod SharedLaws
pub mod Checkpoints
pub mod MarkFaults
pub mod Booked
