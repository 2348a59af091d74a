pub mod Penner
pub mod Surface
pub mod Rows
pub mod RoundingError
pub mod PennerError
pub mod Coefficient
