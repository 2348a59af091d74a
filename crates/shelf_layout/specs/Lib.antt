pub mod Layout
pub mod Doors
pub mod RoundTrip
pub mod Chain
