pub mod Evaluations
