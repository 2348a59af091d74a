pub mod GroundPhase
pub mod Inner
