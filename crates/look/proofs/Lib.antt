pub mod Agree
pub mod Tree
pub mod Within
pub mod Resume
