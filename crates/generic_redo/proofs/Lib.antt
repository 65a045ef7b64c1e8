pub mod Refs
pub mod Deltas
pub mod Folds
