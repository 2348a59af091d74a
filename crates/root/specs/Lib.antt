pub mod Root
pub mod Inner
pub mod Halfway
pub mod Nearest
pub mod Finite
pub mod Guess
