pub mod Inside
pub mod Label
pub mod Laws
pub mod Time
