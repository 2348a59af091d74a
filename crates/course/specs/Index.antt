-- Contracts of inner functions. What a look asks, passed on from the crate index: callers hand it along and do not look into it.
pub use Rattle.index.specs.Index.{Ready, FindsPatch}
