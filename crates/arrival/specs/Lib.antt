pub mod Arrival
pub mod Inner
pub mod RootSearch
pub mod Eighths
