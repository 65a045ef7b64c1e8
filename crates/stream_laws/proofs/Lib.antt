pub mod Solid
pub mod Stay
pub mod Streams
pub mod Shown
pub mod Moved
pub mod NamesStand
pub mod FilesStand
