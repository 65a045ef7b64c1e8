pub mod Numbers
pub mod File
pub mod Name
pub mod Inside
pub mod Laws
