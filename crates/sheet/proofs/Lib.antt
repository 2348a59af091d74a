pub mod Passed
pub mod Range
