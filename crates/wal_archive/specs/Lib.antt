pub mod Archive
pub mod Rules
pub mod Stands
pub mod Writing
pub mod Reading
pub mod Scanning
pub mod Laws
