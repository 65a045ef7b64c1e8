pub mod Items
pub mod Judged
pub mod Walk
pub mod Counted
