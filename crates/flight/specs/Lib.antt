pub mod Flight
pub mod Arc
