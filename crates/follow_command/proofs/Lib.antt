pub mod Feeding
pub mod Replayed
pub mod Copies
pub mod Made
