pub mod Splits
pub mod Written
pub mod Bounds
pub mod Starts
pub mod Pieces
mod Rows
