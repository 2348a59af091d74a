use lib.Ieee.{of_bits, round}
use Rattle.aero.specs.Aero.{cd_cl_of}
use Rattle.aero.specs.Crisis.{crisis_of, sigma_of}
use Rattle.aero.proofs.BallModel.cd_cl.Goals as goal

pub returns-then-speed : goal.returns-then-speed
unfolding cd_cl_of crisis_of sigma_of of_bits round
returns-then-speed c = simp c.if-speed.true

pub returns : goal.returns
unfolding cd_cl_of crisis_of sigma_of of_bits round
returns c = simp (← c.radius_m.ensures, ← c.abs-sr.ensures, ← c.exp.ensures, c.at_crisis-plain.ensures, c.if-speed.false)
