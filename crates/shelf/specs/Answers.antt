-- Definitions. What the shelf's calls give, as 01 states it: the answer's number, with the shelf or the state beside it.
use Rattle.std.specs.Prelude.{ℕ}
use Rattle.state.specs.declared.BallState.{BallState}
use Rattle.shelf.specs.declared.Shelf.{Shelf}

pub record Saved : Type 0 where
  pub answer : ℕ
  pub shelf : Shelf

pub record Returned : Type 0 where
  pub answer : ℕ
  pub state : BallState
