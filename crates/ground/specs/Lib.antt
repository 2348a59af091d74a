pub mod Tests
pub mod Passed
pub mod Settle
pub mod Told
pub mod Inner
pub mod Step
