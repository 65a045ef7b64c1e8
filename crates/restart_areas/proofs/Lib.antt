pub mod Among
pub mod Plain
pub mod Shown
pub mod Counted
