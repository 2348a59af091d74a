pub mod Times
pub mod Language
pub mod Inner
pub mod Lists
