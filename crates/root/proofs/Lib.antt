pub mod Steps
pub mod Correcting
pub mod Testing
pub mod NotNan
pub mod Aligning
pub mod Patterns
pub mod Rooted
pub mod Special
