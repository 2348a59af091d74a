pub mod Place
pub mod Cases
pub mod Magnitudes
