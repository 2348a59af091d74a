use lib.Ieee.{of_bits, round}
use Rattle.rk4.specs.Rk4.{weighted, weighted_in}
use Rattle.rk4.proofs.weigh.Goals as goal

pub returns : goal.returns
unfolding weighted weighted_in of_bits round
returns c = cc
