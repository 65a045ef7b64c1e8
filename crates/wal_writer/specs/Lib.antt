pub mod Log
pub mod Stops
pub mod Answers
pub mod Inside
pub mod Laws
