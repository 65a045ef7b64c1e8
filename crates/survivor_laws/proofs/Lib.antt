pub mod First
pub mod One
