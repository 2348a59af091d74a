pub mod Fields
pub mod WholeBack
