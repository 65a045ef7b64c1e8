pub mod FourLanes
mod MajShort
mod Hashes
