pub mod Doors
pub mod Cards
pub mod Aims
pub mod Listens
pub mod Boards
pub mod Chain
