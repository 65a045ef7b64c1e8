pub mod Failed
pub mod Grown
pub mod Distinct
pub mod Among
pub mod Puts
pub mod Standing
pub mod Directories
mod Labels
