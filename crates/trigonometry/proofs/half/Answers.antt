use lib.Ieee.{of_bits, round}
use Rattle.trigonometry.specs.Trig.{halved}
use Rattle.trigonometry.proofs.half.Goals as goal

pub returns : goal.returns
unfolding halved of_bits round
returns c = rw c.root.ensures
