use lib.Ieee.{of_bits, round}
use Rattle.listen.specs.Listen.{tolerance_ok}
use Rattle.listen.proofs.tolerance_ok.Goals as goal

pub returns : goal.returns
unfolding tolerance_ok of_bits round
returns c = rw c.within.ensures
