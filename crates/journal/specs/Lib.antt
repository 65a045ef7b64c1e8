pub mod Lawful
pub mod Journal
pub mod Laws
pub mod Marks
