pub mod Answers
pub mod Listen
pub mod Inner
pub mod Turns
