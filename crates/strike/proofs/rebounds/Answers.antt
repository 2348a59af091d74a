use lib.Ieee.{of_bits, round}
use Rattle.strike.specs.Strike.{rebounds}
use Rattle.strike.proofs.rebounds.Goals as goal

pub returns-then-v_n : goal.returns-then-v_n
unfolding rebounds of_bits round
returns-then-v_n c = simp (← c.normalize-n.ensures, ← c.dot-v_n.ensures, c.if-v_n.true)
