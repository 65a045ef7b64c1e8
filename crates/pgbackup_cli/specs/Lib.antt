pub mod Top
pub mod Laws
pub mod Inner
pub mod drill_command
pub mod command_answers
