pub mod Aero
pub mod Crisis
