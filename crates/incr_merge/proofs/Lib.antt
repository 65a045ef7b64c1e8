mod PartFiles
mod Paths
mod Kept
mod Contents
mod Forms
mod Directories
mod Whole
