pub mod Opened
pub mod Read
pub mod Begin
pub mod Moments
