use lib.Ieee.{of_bits, round}
use Rattle.root.specs.Guess.{bettered, estimate_of}
use Rattle.number.specs.Nan.{ne_self}
use Rattle.root.proofs.estimate.Goals as goal

pub returns-then-is_nan : goal.returns-then-is_nan
unfolding estimate_of of_bits round
returns-then-is_nan c = rw (ne_self, ← c.is_nan.ensures.value, c.if-is_nan.true)

pub returns : goal.returns
unfolding estimate_of bettered of_bits round
returns c = rw (ne_self, ← c.is_nan.ensures.value, c.if-is_nan.false, c.cut-sh.ensures)
