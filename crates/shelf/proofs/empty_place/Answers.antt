use Rattle.std.proofs.Common.{refl}
use lib.Ieee.{of_bits, round}
use Rattle.shelf.proofs.empty_place.Goals as goal

pub returns : goal.returns
unfolding of_bits round
returns c = refl
