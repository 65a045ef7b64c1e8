pub mod Inside
pub mod Shown
