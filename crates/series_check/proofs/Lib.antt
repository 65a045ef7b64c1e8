mod First
mod Later
mod Answers
