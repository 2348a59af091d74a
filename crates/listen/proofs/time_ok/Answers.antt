use lib.Ieee.{of_bits, round}
use Rattle.listen.specs.Listen.{time_ok}
use Rattle.listen.proofs.time_ok.Goals as goal

pub returns : goal.returns
unfolding time_ok of_bits round
returns c = rw c.within.ensures
