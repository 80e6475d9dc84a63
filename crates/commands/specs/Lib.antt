pub mod Command
pub mod Reply
pub mod Answers
