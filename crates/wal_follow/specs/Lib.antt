pub mod Steps
pub mod Reading
pub mod Window
pub mod Following
pub mod FollowingCode
pub mod Inside
pub mod Laws
