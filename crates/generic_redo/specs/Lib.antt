pub mod Redo
pub mod Causes
pub mod Inside
