pub mod Told
pub mod NoFile
pub mod Emptied
pub mod Lent
pub mod Decided
