pub mod Card
pub mod Inner
pub mod Columns
pub mod Reading
pub mod Fits
