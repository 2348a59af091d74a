pub mod Train
pub mod Inner
