pub mod Series
pub mod Priors
