pub mod Stops
pub mod AnswerLines
