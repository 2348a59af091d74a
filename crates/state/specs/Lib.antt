pub mod State
pub mod Numbers
