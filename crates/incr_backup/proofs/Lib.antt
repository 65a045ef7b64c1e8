pub mod Priors
pub mod IncrAnswers
