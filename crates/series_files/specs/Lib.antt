pub mod Heads
pub mod Inside
