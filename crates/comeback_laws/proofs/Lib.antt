pub mod Tallies
pub mod Survived
pub mod Wholes
pub mod Back
