use mathlib.Core.Path.{refl}
use lib.Ieee.{of_bits, round}
use Rattle.surface.specs.Surface.{coefficient_at, penner}
use Rattle.surface.proofs.Restitution.coefficient_at.Goals as goal

pub returns-in-Constant : goal.returns-in-Constant
unfolding coefficient_at
returns-in-Constant c = simp c.in-Constant.is

pub returns-then-v : goal.returns-then-v
unfolding coefficient_at penner of_bits round
returns-then-v c = simp (c.in-Penner2002.is, ← c.abs-v.ensures, c.if-v.true)

pub returns-else-v : goal.returns-else-v
unfolding coefficient_at penner of_bits round
returns-else-v c = simp (c.in-Penner2002.is, ← c.abs-v.ensures, c.if-v.false)
