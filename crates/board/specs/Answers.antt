-- Definitions. What the board's calls give, as 01 states it: the answer's number, with the board or the shot's number beside it.
use Rattle.std.specs.Prelude.{ℕ}
use Rattle.board.specs.declared.Board.{Board}

pub record Entered : Type 0 where
  pub answer : ℕ
  pub board : Board

pub record Placed : Type 0 where
  pub answer : ℕ
  pub shot : ℕ
