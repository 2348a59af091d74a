use mathlib.Core.Path.{refl}
use lib.Ieee.{of_bits, round}
use Rattle.aero.proofs.BallModel.tour.Goals as goal

pub returns : goal.returns
unfolding of_bits round
returns c = refl
