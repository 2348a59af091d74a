use lib.Ieee.{of_bits, round}
use Rattle.std.proofs.Common.{refl}
use Rattle.hop.proofs.flight_of.Goals as goal

pub returns : goal.returns
unfolding of_bits round
returns c = refl
