pub mod Outcome
pub mod Spelling
pub mod Parts
pub mod Content
pub mod Decoding
pub mod Entry
pub mod Tips
pub mod Sound
