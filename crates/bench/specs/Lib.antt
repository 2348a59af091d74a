pub mod Numbers
pub mod Definitions
pub mod Given
pub mod Shots
pub mod Looks
pub mod Fading
