pub mod Crisis
