pub mod Kept
pub mod Moments
pub mod Sizes
pub mod Held
pub mod Calls
pub mod Raw
pub mod Found
