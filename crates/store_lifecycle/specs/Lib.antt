pub mod Close
pub mod Starts
pub mod Begun
pub mod Ended
