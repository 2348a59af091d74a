use Rattle.std.specs.Float.Ieee.{of_bits, round, neg}
use Rattle.aim.specs.Aim.{aim_ok}
use Rattle.aim.proofs.aim_ok.Goals as goal

pub returns : goal.returns
unfolding aim_ok of_bits round neg
returns c = simp (← c.within.ensures, ← c.within-2.ensures, ← c.within-3.ensures)
