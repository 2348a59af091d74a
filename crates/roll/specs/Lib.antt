pub mod Roll
pub mod Inner
pub mod Evaluations
