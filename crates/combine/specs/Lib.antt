pub mod Combined
pub mod Calls
pub mod Inside
pub mod Laws
