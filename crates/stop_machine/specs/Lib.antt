pub mod Area
pub mod Laws
