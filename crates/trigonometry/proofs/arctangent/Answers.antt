use lib.Ieee.{of_bits, round}
use Rattle.trigonometry.specs.Trig.{arctangent_of}
use Rattle.trigonometry.proofs.arctangent.Goals as goal

pub returns-then-y-x : goal.returns-then-y-x
unfolding arctangent_of
returns-then-y-x c = rw (c.angle.ensures, c.if-y-x.true)

pub returns-else-y-x : goal.returns-else-y-x
unfolding arctangent_of of_bits round
returns-else-y-x c = rw (c.angle-else-y-x.ensures, c.if-y-x.false)
