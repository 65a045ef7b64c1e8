mod Going
mod Windows
mod Areas
mod Behind
mod Agree
