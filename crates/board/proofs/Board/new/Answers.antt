use lib.Ieee.{of_bits, round, neg}
use Rattle.board.specs.Board.{new_of}
use Rattle.board.proofs.Board.new.Goals as goal

pub returns-then-within : goal.returns-then-within
unfolding new_of of_bits round neg
returns-then-within c = simp (← c.within.ensures, ← c.within-2.ensures, c.if-within.true, c.empty.ensures)

pub returns : goal.returns
unfolding new_of of_bits round neg
returns c = simp (← c.within.ensures, ← c.within-2.ensures, c.if-within.false)
