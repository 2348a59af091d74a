pub mod Ops
pub mod Number
pub mod Nan
pub mod Order
pub mod Rounding
pub mod Ranges
pub mod Against0
pub mod Products
