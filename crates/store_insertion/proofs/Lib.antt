pub mod OfOne
pub mod Refused
