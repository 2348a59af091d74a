pub mod Trig
