pub mod Directory
pub mod Area
pub mod Rows
pub mod Inside
