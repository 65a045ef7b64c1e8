pub mod OptionWords
pub mod LsnWords
pub mod AppLemmas
pub mod Simply
pub mod Rows
