pub mod Hop
pub mod Inner
pub mod Fade
