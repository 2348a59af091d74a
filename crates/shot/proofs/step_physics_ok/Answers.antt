use lib.Ieee.{of_bits, round}
use Rattle.shot.specs.Tests.{step_physics_ok}
use Rattle.shot.proofs.step_physics_ok.Goals as goal

pub returns : goal.returns
unfolding step_physics_ok of_bits round
returns c = simp (← c.within.ensures, ← c.within-2.ensures, ← c.within-3.ensures)
