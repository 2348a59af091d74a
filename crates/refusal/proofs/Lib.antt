pub mod Failed
pub mod Numbers
