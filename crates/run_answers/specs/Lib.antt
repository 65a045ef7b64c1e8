pub mod Stopping
pub mod Report
pub mod Begin
pub mod Telling
