pub mod Tests
pub mod Examples
pub mod Steps
