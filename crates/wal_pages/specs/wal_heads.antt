pub mod Header
pub mod Heads
pub mod Announcements
