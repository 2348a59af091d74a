use lib.Ieee.{of_bits, round}
use Rattle.surface.specs.Surface.{speed_factor}
use Rattle.surface.proofs.RollLaw.speed_factor.Goals as goal

pub returns-in-Constant : goal.returns-in-Constant
unfolding speed_factor of_bits round
returns-in-Constant c = simp c.in-Constant.is

pub returns-then-is_finite : goal.returns-then-is_finite
unfolding speed_factor of_bits round
returns-then-is_finite c = simp (c.in-Quadratic.is, ← c.is_finite.ensures, c.if-is_finite.true)

pub returns-else-is_finite : goal.returns-else-is_finite
unfolding speed_factor of_bits round
returns-else-is_finite c = simp (c.in-Quadratic.is, ← c.is_finite.ensures, c.if-is_finite.false)

pub returns-then-is_finite-2 : goal.returns-then-is_finite-2
unfolding speed_factor of_bits round
returns-then-is_finite-2 c = simp (c.in-Exponential.is, ← c.exp.ensures, ← c.is_finite-in-Exponential.ensures, c.if-is_finite-2.true)

pub returns-else-is_finite-2 : goal.returns-else-is_finite-2
unfolding speed_factor of_bits round
returns-else-is_finite-2 c = simp (c.in-Exponential.is, ← c.is_finite-in-Exponential.ensures, c.if-is_finite-2.false)
