pub mod Found
pub mod Turns
pub mod Ways
pub mod FirstCrossing
pub mod ArrivalTime
pub mod Evaluations
