use lib.Ieee.{of_bits, round, neg}
use Rattle.state.specs.State.{coord_ok}
use Rattle.state.proofs.coord_ok.Goals as goal

pub returns : goal.returns
unfolding coord_ok of_bits round neg
returns c = c.within.ensures
