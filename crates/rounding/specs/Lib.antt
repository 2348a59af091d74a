pub mod Rounded
