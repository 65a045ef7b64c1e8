pub mod Kept
pub mod Expiry
pub mod Honest
pub mod Inside
pub mod Laws
