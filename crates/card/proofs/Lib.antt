mod Written
mod Made
pub mod Demand
