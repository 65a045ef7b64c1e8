pub mod Entries
pub mod Published
pub mod Partly
pub mod Torn
pub mod True
pub mod Laws
pub mod Inside
