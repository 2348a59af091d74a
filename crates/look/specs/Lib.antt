pub mod Rect
pub mod Tree
pub mod Agree
