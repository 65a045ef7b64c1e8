pub mod Parts
pub mod System
