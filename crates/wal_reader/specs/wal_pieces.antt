pub mod Piece
pub mod Laws
pub mod Inside
