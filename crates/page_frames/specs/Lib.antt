pub mod Marks
pub mod Framed
pub mod Overlay
pub mod Sweep
pub mod Inside
