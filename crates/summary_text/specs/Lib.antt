pub mod Runs
pub mod Text
pub mod Inside
pub mod Laws
