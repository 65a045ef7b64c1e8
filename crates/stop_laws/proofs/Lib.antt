pub mod Windows
pub mod Touched
pub mod Written
pub mod Begun
pub mod Agreed
