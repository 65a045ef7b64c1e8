mod Chains
mod Behind
mod Pieces
mod Made
mod Segments
mod ForkCopies
mod StoreCopies
pub mod Outputs
pub mod Rising
mod Completed
pub mod Directories
mod WrittenStores
pub mod OneReading
mod OneAnswer
mod EndAlike
