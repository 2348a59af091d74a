use lib.Ieee.{of_bits, round}
use Rattle.vector.specs.Vec.{vnormalize}
use Rattle.vector.proofs.DVec3.normalize.Goals as goal

pub returns : goal.returns
unfolding vnormalize of_bits round
returns c = cc
