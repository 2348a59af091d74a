use lib.Ieee.{of_bits, round}
use Rattle.aero.specs.Aero.{area_of}
use Rattle.aero.proofs.BallModel.area_m2.Goals as goal

pub returns : goal.returns
unfolding area_of of_bits round
returns c = cc
