pub mod Sheet
pub mod Consts
pub mod Scan
pub mod Accepted
