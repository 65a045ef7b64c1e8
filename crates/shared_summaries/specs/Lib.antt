pub mod Grown
pub mod Shelf
pub mod Laws
pub mod Inside
pub mod summary_publish
