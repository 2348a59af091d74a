pub mod Rebound
