pub mod Grown
pub mod Shelves
pub mod Bookings
