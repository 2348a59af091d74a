pub mod Aim
pub mod Inner
pub mod Passed
