pub mod Contents
pub mod Clearing
pub mod Drill
pub mod Telling
pub mod Hashing
pub mod Inside
