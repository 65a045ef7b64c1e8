mod Marked
mod Listed
mod Counted
mod ByPaths
mod Asked
