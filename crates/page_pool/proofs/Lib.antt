pub mod Marks
pub mod Behind
pub mod Windows
pub mod Followed
pub mod Covering
pub mod Ends
pub mod Torn
pub mod Readied
pub mod Doing
pub mod Making
mod Parted
mod Shown
mod Local
mod Counts
mod Lifted
mod Ended
mod OnDisk
mod Roomed
mod Rooms
mod Reserved
mod Opened
mod Applied
mod Flushed
mod Stopped
pub mod InTurn
pub mod PartsAlike
