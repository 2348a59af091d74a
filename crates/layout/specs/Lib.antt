pub mod Layout
pub mod RoundTrip
pub mod Sent
