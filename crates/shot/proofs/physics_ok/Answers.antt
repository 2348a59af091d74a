use lib.Ieee.{of_bits, round}
use Rattle.shot.specs.Tests.{physics_ok}
use Rattle.shot.proofs.physics_ok.Goals as goal

pub returns : goal.returns
unfolding physics_ok of_bits round
returns c = simp (← c.step_physics_ok.ensures, ← c.within.ensures, ← c.within-2.ensures)
