mod Searched
mod Sorted
mod Others
mod Turns
pub mod ForkFiles
mod Manifests
mod Listed
mod Counted
mod OneText
mod Once
mod Links
mod HeldForms
mod Judged
pub mod ListedForms
mod Sized
mod LineEnds
mod LastTokens
mod LastMember
mod LastLine
mod Collisions
