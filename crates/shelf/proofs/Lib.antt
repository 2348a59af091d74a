pub mod Walks
pub mod Promises
pub mod AsMap
pub mod Counted
pub mod Places
