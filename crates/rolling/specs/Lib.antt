pub mod ContactStep
pub mod Times
pub mod Evaluations
