pub mod Word
pub mod Loop
pub mod Reached
pub mod Triple
pub mod Words
