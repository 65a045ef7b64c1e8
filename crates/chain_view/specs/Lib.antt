pub mod Answers
pub mod Asked
pub mod Cells
pub mod Columns
pub mod Json
pub mod Lines
pub mod Table
pub mod Top
