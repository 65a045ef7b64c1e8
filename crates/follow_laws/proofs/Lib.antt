pub mod GoOn
pub mod Windowed
pub mod One
pub mod Apart
pub mod Refused
