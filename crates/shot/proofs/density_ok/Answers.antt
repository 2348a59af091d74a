use lib.Ieee.{of_bits, round}
use Rattle.shot.specs.Tests.{density_ok}
use Rattle.shot.proofs.density_ok.Goals as goal

pub returns : goal.returns
unfolding density_ok of_bits round
returns c = simp (← c.within.ensures)
