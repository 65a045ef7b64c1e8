mod Again
mod Cut
mod Digest
mod Lexed
mod Once
mod OneOrder
mod RisingPaths
mod Parts
mod ReadBack
mod Rows
mod Texts
pub mod Versions
mod Written
