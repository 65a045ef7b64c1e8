pub mod Rows
pub mod Steps
pub mod Lengths
pub mod OneByOne
pub mod HeadsTaken
pub mod HeadsAgain
