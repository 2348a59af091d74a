pub mod Pass
pub mod Ways
