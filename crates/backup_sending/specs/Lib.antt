pub mod Directory
pub mod Entries
pub mod Backup
pub mod Inside
pub mod Laws
pub mod Sent
pub mod Sending
