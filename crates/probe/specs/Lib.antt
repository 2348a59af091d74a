pub mod Rows
pub mod Doors
