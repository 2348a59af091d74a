use lib.Ieee.{of_bits, round}
use Rattle.trigonometry.specs.Trig.{angle_of}
use Rattle.trigonometry.proofs.angle.Goals as goal

pub returns : goal.returns
unfolding angle_of of_bits round
returns c = rw (c.odd_series.ensures, c.half-t.ensures, c.half.ensures)
