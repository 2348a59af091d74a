use mathlib.Core.Path.{refl}
use lib.Ieee.{of_bits, round}
use Rattle.aero.specs.Aero.{radius_of}
use Rattle.aero.proofs.BallModel.radius_m.Goals as goal

pub returns : goal.returns
unfolding radius_of of_bits round
returns c = refl
