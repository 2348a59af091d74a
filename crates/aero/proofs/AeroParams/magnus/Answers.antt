use lib.Ieee.{of_bits, round}
use Rattle.aero.specs.Aero.{magnus_of}
use Rattle.aero.proofs.AeroParams.magnus.Goals as goal

pub returns-then-lift_mag : goal.returns-then-lift_mag
unfolding magnus_of of_bits round
returns-then-lift_mag c =
    simp (
      ← c.abs.ensures,
      ← c.cross-lift_dir.ensures,
      ← c.length-lift_mag.ensures,
      ← c.div.ensures,
      ← c.mul.ensures,
      c.if-lift_mag.true,
      c.if-abs.true,
    )

pub returns-else-lift_mag : goal.returns-else-lift_mag
unfolding magnus_of of_bits round
returns-else-lift_mag c = simp (← c.abs.ensures, ← c.cross-lift_dir.ensures, ← c.length-lift_mag.ensures, c.if-lift_mag.false, c.if-abs.true)

pub returns-else-abs : goal.returns-else-abs
unfolding magnus_of of_bits round
returns-else-abs c = simp (← c.abs.ensures, c.if-abs.false)
