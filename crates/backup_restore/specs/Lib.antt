pub mod Restored
pub mod Inside
pub mod Onwards
pub mod Completed
pub mod Directories
pub mod Laws
