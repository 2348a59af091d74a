use lib.Ieee.{of_bits, round}
use Rattle.hop.specs.Hop.{fade_factor}
use Rattle.hop.proofs.fade_factor.Goals as goal

pub returns : goal.returns
unfolding fade_factor of_bits round
returns c = c.exp.ensures
