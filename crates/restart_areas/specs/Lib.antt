pub mod Pages
pub mod Areas
pub mod Inside
pub mod Counting
