pub mod Day
pub mod LineTexts
pub mod OneReading
pub mod Refusals
pub mod Times
pub mod ValueTexts
pub mod Written
