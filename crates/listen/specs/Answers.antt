-- Definitions. What `listen` gives beside the marks, as 02 states it: the answer's number with the three totals.
use Rattle.std.specs.Prelude.{ℕ}

pub record Heard : Type 0 where
  pub answer : ℕ
  pub pairs : ℕ
  pub heard_only : ℕ
  pub computed_only : ℕ
