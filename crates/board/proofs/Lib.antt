pub mod Lists
pub mod Examples
pub mod Alike
pub mod Listing
pub mod Tests
pub mod Shift
