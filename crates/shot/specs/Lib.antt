pub mod Physics
pub mod Tests
pub mod Passed
