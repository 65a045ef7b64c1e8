pub mod Paths
pub mod Segments
pub mod Held
pub mod Told
pub mod Sources
pub mod Inside
