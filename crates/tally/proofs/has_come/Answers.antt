use lib.Ieee.{of_bits, round}
use Rattle.tally.specs.Times.{has_come}
use Rattle.std.proofs.Common.{refl}
use Rattle.tally.proofs.has_come.Goals as goal

pub returns : goal.returns
unfolding has_come of_bits round
returns c = refl
