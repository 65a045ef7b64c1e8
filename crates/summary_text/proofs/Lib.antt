mod Running
mod Apart
