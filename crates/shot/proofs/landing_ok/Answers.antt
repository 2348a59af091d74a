use lib.Ieee.{of_bits, round}
use Rattle.shot.specs.Tests.{landing_ok}
use Rattle.shot.proofs.landing_ok.Goals as goal

pub returns : goal.returns
unfolding landing_ok of_bits round
returns c = simp (← c.within.ensures, ← c.vec_about.ensures, ← c.vec_about-2.ensures, ← c.vec_about-3.ensures)
