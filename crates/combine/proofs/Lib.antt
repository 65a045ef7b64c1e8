pub mod PathsFor
pub mod Contents
mod Standing
mod SameSegments
mod FullLabels
mod Listed
pub mod Rebuilt
pub mod Directories
pub mod Failed
pub mod Left
pub mod Whole
