pub mod Applicable
pub mod Tallies
pub mod Redoing
pub mod SoFar
pub mod Stepping
pub mod Replays
pub mod Hearing
pub mod OneWal
