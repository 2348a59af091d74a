pub mod Nans
pub mod Little
