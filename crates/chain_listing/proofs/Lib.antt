mod Chaining
mod Linked
mod Newest
mod ShownFolders
mod Taken
