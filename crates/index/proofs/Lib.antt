pub mod Reach
pub mod Marks
pub mod Cuts
pub mod Boxes
