pub mod Common
pub mod Names
pub mod Below
pub mod Held
pub mod Kept
pub mod Made
pub mod Walks
pub mod Sorted
