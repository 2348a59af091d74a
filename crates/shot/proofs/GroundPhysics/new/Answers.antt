use mathlib.Core.Path.{refl}
use lib.Ieee.{of_bits, round}
use Rattle.shot.specs.Physics.{physics_new}
use Rattle.shot.proofs.GroundPhysics.new.Goals as goal

pub returns : goal.returns
unfolding physics_new of_bits round
returns c = refl
