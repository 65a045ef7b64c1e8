pub mod Backups
pub mod Chains
pub mod Folders
pub mod Laws
pub mod Listing
pub mod Order
pub mod Shown
pub mod Words
