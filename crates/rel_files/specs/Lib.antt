pub mod Forks
pub mod Events
pub mod Shown
pub mod Inside
pub mod Kept
pub mod Laws
