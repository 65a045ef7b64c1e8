pub mod Names
pub mod Neatened
pub mod Listed
pub mod Staying
pub mod Judged
