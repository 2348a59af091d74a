pub mod Exp
pub mod Rounding
pub mod Shift
pub mod Power
pub mod Whole
pub mod NotNan
pub mod Magnitude
