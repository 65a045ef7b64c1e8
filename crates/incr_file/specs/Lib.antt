pub mod Head
pub mod Reading
pub mod Form
pub mod Origin
pub mod Plan
pub mod Laws
