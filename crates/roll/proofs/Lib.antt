pub mod Pass
pub mod Phases
