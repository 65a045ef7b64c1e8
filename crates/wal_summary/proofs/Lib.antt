pub mod Tables
pub mod Maps
pub mod Sums
pub mod Entries
pub mod Cover
pub mod Ranges
pub mod Unique
