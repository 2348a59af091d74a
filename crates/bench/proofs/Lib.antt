pub mod Demand
pub mod Split
pub mod Shots
