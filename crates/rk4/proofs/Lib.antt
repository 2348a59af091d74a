pub mod Stages
pub mod Fractions
