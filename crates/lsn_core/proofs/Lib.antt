pub mod AnyAll
pub mod ForkOrder
pub mod ForkPaths
pub mod LsnTexts
pub mod Padding
pub mod SegmentNames
pub mod SegmentOrder
pub mod StoreFiles
