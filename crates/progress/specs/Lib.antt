pub mod Choice
pub mod Line
pub mod Moved
pub mod Pace
