pub mod Prior
pub mod Incr
pub mod IncrInside
pub mod IncrSteps
