pub mod Puts
pub mod Folds
pub mod OwnActs
pub mod Removed
