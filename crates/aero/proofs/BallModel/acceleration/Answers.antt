use lib.Ieee.{of_bits, round, neg}
use Rattle.aero.specs.Aero.{acceleration_of}
use Rattle.aero.proofs.BallModel.acceleration.Goals as goal

pub returns-then-speed : goal.returns-then-speed
unfolding acceleration_of of_bits round neg
returns-then-speed c = simp (← c.length-speed.ensures, c.if-speed.true)

pub returns : goal.returns
unfolding acceleration_of of_bits round neg
returns c =
    simp (
      ← c.length-speed.ensures,
      ← c.div-vel_hat.ensures,
      ← c.cd_cl-c.ensures,
      ← c.area_m2-area.ensures,
      ← c.mul-drag.ensures,
      ← c.magnus-magnus.ensures,
      ← c.add.ensures,
      ← c.add-2.ensures,
      c.if-speed.false,
    )
