use Rattle.std.specs.Float.Ieee.{of_bits, round}
use Rattle.aim.specs.Aim.{with_speeds}
use Rattle.aim.proofs.with_speeds.Goals as goal

pub returns : goal.returns
unfolding with_speeds of_bits round
returns c = rw (c.whole.ensures, c.whole-2.ensures)
