pub mod Strike
pub mod Inner
