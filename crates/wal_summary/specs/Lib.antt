pub mod Summary
pub mod Marks
pub mod Kept
pub mod Inside
pub mod Laws
