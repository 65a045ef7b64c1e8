pub mod Kinds
pub mod Listing
pub mod Lines
pub mod Shape
pub mod Reading
pub mod Answers
pub mod Text
pub mod Laws
