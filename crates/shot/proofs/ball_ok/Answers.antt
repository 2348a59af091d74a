use lib.Ieee.{of_bits, round}
use Rattle.shot.specs.Tests.{ball_ok}
use Rattle.shot.proofs.ball_ok.Goals as goal

pub returns : goal.returns
unfolding ball_ok of_bits round
returns c =
    simp (
      ← c.within.ensures,
      ← c.within-2.ensures,
      ← c.within-3.ensures,
      ← c.within-4.ensures,
      ← c.within-5.ensures,
      ← c.within-6.ensures,
      ← c.within-7.ensures,
      ← c.within-8.ensures,
      ← c.within-9.ensures,
      ← c.within-10.ensures,
      ← c.within-11.ensures,
      ← c.within-12.ensures,
    )
