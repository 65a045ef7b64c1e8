pub mod Numbers
pub mod Cuts
pub mod Pieces
pub mod Told
