pub mod Answers
pub mod Joined
pub mod Meanings
pub mod Indices
pub mod Shown
pub mod TableNames
