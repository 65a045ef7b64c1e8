pub mod Cleared
pub mod Marks
pub mod Exact
pub mod Phases
pub mod Moments
pub mod Settled
pub mod Turned
pub mod Stored
